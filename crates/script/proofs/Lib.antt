mod MostBytes
mod CallLineRows
mod PartsFound
mod Prefixes
