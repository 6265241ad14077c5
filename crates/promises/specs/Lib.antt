-- Terms of the promises on the lent tables:
--   Records    a record that is kept, and the interrupts that an access names
--   OnTables   tables that hold the records of a case, and K1 to K12 on them
pub mod Records
pub mod OnTables
