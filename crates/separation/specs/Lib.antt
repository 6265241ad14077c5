-- Demand 3, from the top:
--   Runs       a machine, its runs, and what an observer has of them
--   Steps      Non-secure steps, private steps, and steps taken in common
--   Private    document 01's private Secure steps, by name
--   Lent       runs on the lent tables; tables alike; the same in bytes; the table where no Secure interrupt exists
--   ReadBack   what the Non-secure side reads back of what it wrote
pub mod Runs
pub mod Steps
pub mod Private
pub mod Lent
pub mod ReadBack
