mod Frames
pub mod PutAndRemoved
