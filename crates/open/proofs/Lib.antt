pub mod OpenCloseEnding
