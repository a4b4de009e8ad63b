pub mod ExternalLemmas
pub mod FitLemmas
pub mod ReportLemmas
pub mod ScanLemmas
