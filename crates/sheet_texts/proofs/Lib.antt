mod RecordLaws
mod LineLaws
mod ReasonLaws
mod ToldLaws
mod RefusedLaws
mod RowsReasons
