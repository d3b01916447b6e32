pub mod TypedGifts
