pub mod AccessLaws
pub mod AccessViews
pub mod Accessing
pub mod CountViews
pub mod Counting
pub mod FutexLaws
pub mod FutexViews
