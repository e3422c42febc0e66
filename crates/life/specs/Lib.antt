-- The theorems about runs and chips, in the order to read them: a run gives exactly its orders (demand 2); the life of a chip (demand 3), with its premises word for word, and the same for a built chip in the calls' own definitions; and that the bench is such a life.
pub mod Types
pub mod OrderList
pub mod Life
pub mod Events
pub mod AsOrdered
pub mod Built
pub mod BenchLife
