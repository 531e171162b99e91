pub mod PrefixLaws
pub mod Misspelled
pub mod RefusalLaws
