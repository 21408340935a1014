pub mod OtherScalars
