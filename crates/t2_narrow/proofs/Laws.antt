pub mod FewBytes
