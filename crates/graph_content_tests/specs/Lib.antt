pub mod LiveMarks
