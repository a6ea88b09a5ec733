pub mod Lists
pub mod Ones
pub mod OutputLaws
pub mod Reading
pub mod Words
