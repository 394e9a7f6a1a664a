pub mod AreaLaws
pub mod BankLaws
pub mod CallLaws
