mod Bytes
mod Fields
mod Lines
mod Texts
mod Renaming
