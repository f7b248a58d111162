pub mod Headers
pub mod ImageFacts
pub mod TextFacts
