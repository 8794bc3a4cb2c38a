pub mod BlockParts
