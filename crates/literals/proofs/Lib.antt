-- Taking one literal; how rules, their words, heads and names grow by it.
pub mod Taking
pub mod Lasts
pub mod Layouts
pub mod Growth
