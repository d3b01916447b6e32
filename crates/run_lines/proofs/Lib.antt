mod Gathered
mod Sound
mod EventsRead
mod LogsRead
mod Plain
mod PlainLines
mod RunsRead
