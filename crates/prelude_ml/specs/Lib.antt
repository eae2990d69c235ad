pub mod PreludeText
pub mod MadeText
