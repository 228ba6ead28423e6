-- Parts of a text (Text, trusted), and the laws of digits and of a route's steps.
pub mod Text
pub mod Digits
pub mod Steps
