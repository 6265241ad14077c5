-- The meaning of document 01, in its order. A reader who signs reads these files and believes them; the rest is proved.
--
--   Interrupt   which interrupt: shared by all processors, or the processor's own    (Shape and tables)
--   Cell        one interrupt: its record bits, Non-secure, owned, edge, pending     (Shape and tables)
--   Layout      shape limits, interrupts in range, slots, presence, the lent tables  (Shape and tables)
--   Answers     the numbers and values of an answer                                  (Answers and order)
--   Registers   the listed registers as rows of data, and where an access goes       (Listed registers, refusals 2 to 6)
--   Rule        what a step does to one interrupt, and what a read shows of it       (Effects)
--   Step        what a step answers, and the tables after it                         (Answers and order, Effects)
--   Cases       K1 to K12 as a table                                                 (Cases)
pub mod Interrupt
pub mod Cell
pub mod Layout
pub mod Answers
pub mod Registers
pub mod Rule
pub mod Step
pub mod Cases
