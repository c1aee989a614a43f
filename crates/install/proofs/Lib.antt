pub mod InstallLaws
