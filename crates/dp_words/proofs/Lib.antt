mod Asking
mod Telling
