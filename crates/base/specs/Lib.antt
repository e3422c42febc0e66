-- What all contracts share: how a question is asked, the numbers of refusals, an answer in numbers, and how output fills a buffer.
pub mod Question
pub mod Types
pub mod Refusal
pub mod Answer
pub mod Output
