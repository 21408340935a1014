mod Answering
mod RegisteredTypes
mod ServedDemo
