mod Demanded
mod Places
mod Moments
mod Picks
