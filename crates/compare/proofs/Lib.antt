mod Shared
mod Mirror
mod Harm
mod Apart
