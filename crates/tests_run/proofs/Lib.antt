mod Examples
mod LoadExamples
