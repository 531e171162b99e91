pub mod Listed
pub mod Entries
pub mod Having
pub mod Forms
pub mod Domains
pub mod Policies
pub mod Printed
