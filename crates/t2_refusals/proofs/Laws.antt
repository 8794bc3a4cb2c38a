pub mod ScratchLength
pub mod RefusalParts
