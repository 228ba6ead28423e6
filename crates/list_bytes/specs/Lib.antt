-- The bytes of entries and of an edge's firsts (Laying), the list as it grows in lent bytes (Growing), and that the
-- bytes of all edges are the list's (Listing).
pub mod Laying
pub mod Growing
pub mod Listing
