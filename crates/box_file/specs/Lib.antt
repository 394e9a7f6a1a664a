pub mod BoxText
