pub mod Firsts
pub mod Lists
