-- What a reader must believe: the program of Figure 1, and the words of the paper's assertions.
pub mod Figure1
pub mod Assertions
