mod Splitting
mod Numbers
