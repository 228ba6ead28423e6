-- What both ways share: what a call owes that reads a form and counts and its answer's numbers (Owed, trusted;
-- Accepted), what both start from (Prepared), the plan's rows (Rows), a route's bytes (RouteWords), the numbers that
-- both answer (Totals).
pub mod Owed
pub mod Accepted
pub mod Prepared
pub mod Rows
pub mod RouteWords
pub mod Totals
