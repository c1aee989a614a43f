pub mod ImpersonateLaws
