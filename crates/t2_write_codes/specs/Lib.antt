pub mod PassTable
