pub mod Listed
pub mod Results
pub mod Repeated
pub mod ElementAgreement
pub mod ArrayAgreement
pub mod EqualDecisions
