pub mod FewPlaces
