-- Theorems: the demands of the customer, one file for each, the change requests that ask for more, and one outcome for each call.
pub mod First
pub mod Second
pub mod Third
pub mod Drawers
pub mod Pedal
pub mod SoldOut
pub mod Coffee
pub mod SortingTable
pub mod EndlessPapers
pub mod FootUp
pub mod ReallyPrinted
pub mod HowFar
pub mod LongOrders
pub mod NoneTouching
pub mod SmallInside
pub mod Outcomes
