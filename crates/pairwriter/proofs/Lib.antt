pub mod PairLaws
pub mod SpanLaws
