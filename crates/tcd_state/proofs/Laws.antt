pub mod RangeParts
pub mod Front
