pub mod SpansKept
pub mod PlacesKept
