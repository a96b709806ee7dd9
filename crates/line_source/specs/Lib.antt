pub mod LineSources
