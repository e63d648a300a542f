mod EachRecording
mod Ends
mod Headers
mod Pulled
mod Taken
