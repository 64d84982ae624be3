pub mod Answer
pub mod Input
