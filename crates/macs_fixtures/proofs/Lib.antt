mod BlockFlags
mod MemoryFile
