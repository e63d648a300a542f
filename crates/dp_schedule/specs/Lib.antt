pub mod LineGrammar
pub mod JoinGrammar
pub mod ReportText
