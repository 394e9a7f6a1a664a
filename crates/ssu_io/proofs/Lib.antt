pub mod BufferLemmas
pub mod BytesLemmas
pub mod FilesLemmas
