-- The laws of what reads hand over.
mod Input
