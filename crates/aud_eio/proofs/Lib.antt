pub mod Bodies
pub mod ReadBack
