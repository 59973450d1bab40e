mod Seeking
mod Turning
