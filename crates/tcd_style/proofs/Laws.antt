pub mod StyleBits
