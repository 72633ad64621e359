mod Said
mod Behaves
mod Tracing
mod PlainTracing
mod Traced
mod Taken
