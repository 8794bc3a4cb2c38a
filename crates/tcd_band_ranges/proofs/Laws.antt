pub mod BandParts
