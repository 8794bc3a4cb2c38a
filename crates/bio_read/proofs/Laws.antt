pub mod ReadChunks
